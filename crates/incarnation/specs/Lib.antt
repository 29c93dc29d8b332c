pub mod Rows
pub mod Filed
pub mod Starts
