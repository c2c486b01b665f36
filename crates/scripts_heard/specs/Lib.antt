pub mod AllGood
pub mod Heard
