pub mod ConveyorsOverBank
pub mod RanksOverBanks
pub mod Drives
pub mod Turns
pub mod DrivePromises
pub mod Seats
pub mod laws
