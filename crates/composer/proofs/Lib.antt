pub mod Checks
pub mod Groups
pub mod Readers
pub mod Wholes
pub mod Written
