pub mod Driving
pub mod Moving
pub mod Telling
