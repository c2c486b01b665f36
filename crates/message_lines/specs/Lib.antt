pub mod Fields
pub mod Spellings
pub mod Messages
pub mod Lines
pub mod Inputs
pub mod Readings
pub mod Readers
