pub mod SentStates
pub mod SentSims
