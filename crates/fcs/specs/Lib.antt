pub mod Sequence
pub mod Table
