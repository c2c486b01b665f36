pub mod Setup
pub mod Reading
pub mod Transactions
pub mod Kept
pub mod Readers
