pub mod ByHand
pub mod Exstacks
