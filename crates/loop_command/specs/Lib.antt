pub mod LostRuns
pub mod Loops
pub mod Listened
pub mod Ended
pub mod Running
