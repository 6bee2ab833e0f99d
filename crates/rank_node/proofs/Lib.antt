pub mod Emitted
pub mod Ballots
pub mod Kept
pub mod Absorbed
pub mod Chains
pub mod Took
pub mod Offered
pub mod PushesItems
pub mod Moved
pub mod Halted
pub mod Filled
pub mod FilledOn
pub mod Popped
pub mod Polled
pub mod Between
pub mod Stacked
pub mod Onward
pub mod Resumed
pub mod Begun
pub mod Fresh
mod Marks
mod Paced
mod Awaited
mod Next
mod OneHop
mod OwnPulls
