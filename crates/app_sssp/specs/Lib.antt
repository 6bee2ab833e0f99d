pub mod SsspRuns
pub mod Sssps
pub mod code
pub mod laws
