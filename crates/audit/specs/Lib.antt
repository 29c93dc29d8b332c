pub mod Working
pub mod Released
pub mod Audits
pub mod Line
