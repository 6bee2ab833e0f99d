-- How the code keeps what the other files speak of.
pub mod AskingView
pub mod Batches
pub mod HistoView
pub mod IgSent
pub mod IgView
pub mod SumsView
pub mod Queries
