pub mod Buffers
pub mod Memory
pub mod Octets
pub mod Packed
pub mod Sink
pub mod Source
pub mod Text
