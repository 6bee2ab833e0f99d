pub mod Deals
pub mod Owners
pub mod Parts
pub mod Permutations
pub mod Emits
