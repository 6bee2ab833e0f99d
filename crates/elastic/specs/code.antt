-- How the code keeps what the other files speak of.
pub mod Begun
pub mod MailView
