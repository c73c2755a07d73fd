pub mod Answers
pub mod Fields
pub mod Information
pub mod Laws
pub mod Moving
pub mod Parameters
pub mod Reading
pub mod Stands
