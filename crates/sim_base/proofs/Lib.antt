pub mod PushedPulses
pub mod PushedEdges
pub mod TickBounds
pub mod RecordedTimes
pub mod OrderlyEdges
pub mod PulseEdges
pub mod FittingNibbles
pub mod PulseLengths
