pub mod Traps
pub mod Processes
pub mod Courses
pub mod Loading
pub mod Turns
pub mod Programs
pub mod Coding
