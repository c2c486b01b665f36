pub mod PhaseCodes
pub mod PhaseSteps
pub mod Standing
pub mod Stays
pub mod Telling
pub mod Rules
pub mod LookingBack
