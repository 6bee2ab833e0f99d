pub mod Moving
pub mod Asked
pub mod Columns
pub mod Lengths
pub mod Serial
pub mod Tallies
