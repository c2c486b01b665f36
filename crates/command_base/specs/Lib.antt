pub mod Counted
pub mod Tasks
pub mod Grown
pub mod Ended
pub mod Parts
