mod Counted
mod Added
mod ByHand
