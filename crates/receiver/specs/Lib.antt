pub mod Answers
pub mod Stands
pub mod Hearing
pub mod Listening
