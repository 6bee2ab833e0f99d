-- How the code keeps what the other files speak of.
pub mod CountView
pub mod ShareView
pub mod TallyView
