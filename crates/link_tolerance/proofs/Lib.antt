pub mod HeardPulses
