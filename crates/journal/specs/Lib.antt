pub mod Promises
pub mod GoingOn
