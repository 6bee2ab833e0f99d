pub mod DeltaRuns
pub mod Deltas
pub mod code
pub mod laws
