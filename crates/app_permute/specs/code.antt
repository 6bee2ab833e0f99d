-- How the code keeps what the other files speak of.
pub mod Batches
pub mod PermuteView
pub mod Sent
pub mod TransposeView
