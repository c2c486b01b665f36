pub mod ToothStates
pub mod ToothSims
