pub mod LinkRuns
pub mod RefusedMessages
pub mod PlayedMessages
pub mod HonestRuns
pub mod AcceptedSetups
pub mod SpcCalls
