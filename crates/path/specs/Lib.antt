pub mod Carrying
pub mod Dry
pub mod Ends
pub mod Replay
pub mod Runs
