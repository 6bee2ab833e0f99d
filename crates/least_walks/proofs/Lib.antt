pub mod Marks
pub mod Members
pub mod Offered
pub mod Rows
pub mod Settled
pub mod Simple
pub mod Spans
pub mod Texts
