pub mod FallCounts
pub mod Prefixes
pub mod EdgeLeads
pub mod Meanings
pub mod Pushes
pub mod Windows
