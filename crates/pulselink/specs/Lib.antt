pub mod About
pub mod Tasks
