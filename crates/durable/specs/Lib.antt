pub mod Standing
pub mod Measuring
