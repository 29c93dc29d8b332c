pub mod Chores
