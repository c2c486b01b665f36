pub mod DrawnValues
pub mod SignalCodes
