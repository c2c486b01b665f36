pub mod Trains
pub mod Traces
pub mod FromFirst
pub mod Nominal
pub mod Worked
