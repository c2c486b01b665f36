pub mod Sims
pub mod Refusals
pub mod Played
pub mod Transactions
