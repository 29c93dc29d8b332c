pub mod Writing
pub mod Fuses
