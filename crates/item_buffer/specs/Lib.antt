pub mod Capacity
pub mod Contents
