-- How the code keeps what the other files speak of.
pub mod TopoSeats
pub mod TopoSent
pub mod TopoView
pub mod TopoPlaces
