pub mod Psi5States
pub mod Psi5Sims
