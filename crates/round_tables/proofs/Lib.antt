mod Delta
mod DeltaLists
mod DeltaSteps
mod DeltaWeights
mod Sssp
mod SsspFound
mod SsspLists
pub mod TableLaws
mod Tables
mod TopoVotes
mod Votes
