pub mod Bounds
pub mod PulseLeads
pub mod Edges
pub mod Prefixes
pub mod CarriedValues
pub mod Meanings
pub mod Pushes
pub mod SentTicks
