-- How the code reads, keeps and sorts what the other files speak of.
pub mod Bands
pub mod Capped
pub mod Chains
pub mod Cuts
pub mod DigitLanes
pub mod Distributed
pub mod Drafts
pub mod Fronts
pub mod PlaceOrder
pub mod Places
pub mod Pieces
pub mod PlainLines
