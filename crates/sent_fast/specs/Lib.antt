pub mod Layouts
pub mod Counters
