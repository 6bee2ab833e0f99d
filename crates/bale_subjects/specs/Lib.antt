pub mod Fitness
pub mod Numberings
pub mod Reading
pub mod Refusals
pub mod Subjects
