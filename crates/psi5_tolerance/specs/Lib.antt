pub mod Lines
pub mod Trains
pub mod Traces
pub mod FromFirst
pub mod Places
pub mod Exact
pub mod Bounds
