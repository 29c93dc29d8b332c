pub mod Roles
pub mod Requests
pub mod Accounts
pub mod Billing
pub mod States
pub mod Coding
pub mod Laws
