pub mod Codes
pub mod Phases
pub mod Readings
pub mod Standings
pub mod Meanings
pub mod Kept
pub mod Readers
