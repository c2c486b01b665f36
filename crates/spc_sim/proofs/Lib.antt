pub mod SpcAnswers
pub mod SpcOutcomes
pub mod SpcTimes
pub mod SpcEdges
pub mod SpcRuns
