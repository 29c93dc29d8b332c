pub mod Driving
pub mod Telling
