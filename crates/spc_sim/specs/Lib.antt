pub mod SpcStates
pub mod SpcSims
