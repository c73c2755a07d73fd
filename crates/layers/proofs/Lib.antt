pub mod Ahead
pub mod Combining
pub mod Registers
pub mod Scrambles
pub mod Sequences
pub mod Undoing
pub mod Windows
