pub mod Foretelling
pub mod FrameParts
pub mod Listing
pub mod OctetBits
pub mod Puts
