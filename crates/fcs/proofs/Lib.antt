pub mod Behind
pub mod Bounds
pub mod Linear
pub mod Moves
