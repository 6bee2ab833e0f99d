pub mod OneRank
mod Exchange
mod Flows
mod PostLaw
mod Moves
mod Arrivals
mod Pairs
mod Steps
mod Routes
mod Ways
mod Asks
mod Ascending
mod States
mod Collects
mod Posts
mod Relays
mod Blocks
mod Completes
mod Sent
mod Movements
mod Advances
mod Quiet
mod Pushes
mod Pulls
pub mod Batched
pub mod Together
pub mod Crosses
