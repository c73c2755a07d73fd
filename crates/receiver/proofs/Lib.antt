pub mod Closes
pub mod Matching
pub mod Packs
pub mod Takes
pub mod Turns
pub mod Verdicts
