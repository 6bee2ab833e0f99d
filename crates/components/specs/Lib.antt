pub mod Connected
pub mod LabelRules
pub mod Starts
pub mod code
pub mod laws
