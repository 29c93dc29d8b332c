pub mod Lines
pub mod Parts
pub mod Serving
pub mod Feeds
pub mod Counting
pub mod Doing
