pub mod Heading
pub mod Lists
pub mod Putting
pub mod Writing
