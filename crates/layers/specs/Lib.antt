pub mod Burst
pub mod Copying
pub mod Laws
pub mod Pile
pub mod Scrambling
pub mod Sequence
