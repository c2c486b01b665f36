pub mod SentFrames
pub mod SentOutcomes
pub mod SentFits
pub mod SerialSendings
pub mod SentTrains
pub mod SentEdges
pub mod SentTurns
pub mod SentRuns
