pub mod Draws
pub mod Scripts
pub mod Counted
pub mod Scripted
