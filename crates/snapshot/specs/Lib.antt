pub mod Parts
pub mod Logs
pub mod Tenants
pub mod Hosts
pub mod Faults
