pub mod Clap
pub mod Numbers
pub mod Options
pub mod Pairs
pub mod Ranges
pub mod Reading
pub mod Values
pub mod Words
