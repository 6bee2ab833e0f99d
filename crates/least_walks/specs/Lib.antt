pub mod Lines
pub mod Tables
pub mod Vertices
pub mod Walks
pub mod code
