-- How the code keeps what the other files speak of.
pub mod SsspSeats
pub mod SsspView
