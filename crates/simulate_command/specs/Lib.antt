pub mod Rows
pub mod Playing
pub mod Simulations
pub mod Runs
