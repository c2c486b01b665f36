pub mod Cutting
pub mod LineEnds
pub mod Telling
pub mod Streams
pub mod Stays
pub mod Feeding
