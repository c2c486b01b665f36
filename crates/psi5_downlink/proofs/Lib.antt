pub mod KeptBits
pub mod Numbers
pub mod Judging
pub mod Leading
pub mod Encoding
pub mod Downs
pub mod FrameLaws
pub mod Meanings
