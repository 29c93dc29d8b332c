pub mod Entries
pub mod History
pub mod Certificates
pub mod Commits
pub mod Past
pub mod Standing
