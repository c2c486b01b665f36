pub mod HeardPeriods
pub mod FrameBits
pub mod ReadFrames
pub mod ReadTrains
pub mod NominalTrains
pub mod WorkedTrace
