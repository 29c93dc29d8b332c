pub mod Inputs
pub mod States
pub mod Kinds
