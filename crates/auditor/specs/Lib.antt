pub mod Lists
pub mod Parting
