pub mod PushedBits
pub mod ToothMessages
pub mod ToothOutcomes
pub mod ToothSpans
pub mod ToothEdges
pub mod ToothRuns
