pub mod Buffers
pub mod Low
pub mod OneBit
pub mod PackedBits
pub mod Sent
pub mod Texts
pub mod Values
