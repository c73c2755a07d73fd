pub mod Checking
pub mod Paying
