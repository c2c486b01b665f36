pub mod Growing
pub mod Pulls
pub mod Counting
