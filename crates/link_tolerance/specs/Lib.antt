pub mod Recorded
pub mod Ticks
pub mod Pulses
