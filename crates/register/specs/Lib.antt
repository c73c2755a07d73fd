pub mod Groups
pub mod Register
