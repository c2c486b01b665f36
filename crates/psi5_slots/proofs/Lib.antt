pub mod Slots
pub mod Histories
pub mod Standing
pub mod Meanings
