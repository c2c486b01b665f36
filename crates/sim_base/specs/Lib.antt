pub mod Wobbles
pub mod SimFaults
pub mod Recordings
pub mod DrawnTicks
pub mod Outcomes
pub mod Runs
pub mod FittingNibbles
