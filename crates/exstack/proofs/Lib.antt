pub mod OneHop
mod Sweeps
mod Moves
pub mod Places
mod Rooms
pub mod Calls
mod OneLink
mod Manners
mod Making
pub mod Beginning
mod Settling
mod Pieces
mod Stepping
mod Popping
mod Resetting
mod Polling
mod BothEnds
mod Exchange
mod Batches
pub mod Lockstep
