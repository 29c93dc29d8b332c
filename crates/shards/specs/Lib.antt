pub mod Kept
pub mod Blocks
pub mod Underway
pub mod Driven
