pub mod Link
pub mod Lent
pub mod Lending
pub mod State
pub mod Relay
pub mod Standing
