pub mod Setup
pub mod Pulses
pub mod Reading
pub mod Values
pub mod Positions
pub mod Kept
pub mod Readers
pub mod Frames
