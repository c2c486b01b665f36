pub mod Cutting
pub mod Decimals
pub mod Smalls
pub mod Telling
pub mod Standing
pub mod Written
pub mod Fitting
