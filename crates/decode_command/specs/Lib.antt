pub mod Channels
pub mod Tellings
pub mod Writes
pub mod Followed
pub mod Runs
pub mod Traces
pub mod Counted
