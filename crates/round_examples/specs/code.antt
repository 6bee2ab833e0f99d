-- How the code keeps what the other files speak of.
pub mod AskView
pub mod CountView
pub mod LookupView
pub mod TrafficBatches
pub mod TrafficView
