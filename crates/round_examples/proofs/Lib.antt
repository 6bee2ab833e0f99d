pub mod AskSteps
pub mod Targets
pub mod TrafficBatches
pub mod TrafficRuns
