pub mod Digits
pub mod Memory
pub mod Out
pub mod Stream
