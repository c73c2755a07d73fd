pub mod Addresses
pub mod Controls
pub mod Laws
pub mod Opening
pub mod Parts
