pub mod Trains
pub mod Traces
pub mod FromFirst
pub mod Nominal
