pub mod Checks
pub mod Division
pub mod Manchester
pub mod Sent
pub mod Periods
