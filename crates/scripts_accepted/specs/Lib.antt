pub mod Taken
pub mod Followed
