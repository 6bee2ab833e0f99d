pub mod Banks
pub mod Lines
pub mod Taking
pub mod States
pub mod Still
pub mod Ranks
pub mod Moments
pub mod Turns
