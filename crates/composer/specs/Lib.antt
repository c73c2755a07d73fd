pub mod Checking
pub mod Composing
pub mod Sizes
