pub mod DecodedTraces
