pub mod Setup
pub mod History
pub mod Kept
pub mod Readers
pub mod Meanings
