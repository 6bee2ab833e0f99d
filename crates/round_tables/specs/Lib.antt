pub mod Delta
pub mod Follows
pub mod Laws
pub mod Sssp
pub mod Tables
