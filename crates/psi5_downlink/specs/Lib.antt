pub mod Setup
pub mod Bits
pub mod Frames
pub mod Rises
pub mod Reading
pub mod Kept
pub mod Readers
pub mod Meanings
