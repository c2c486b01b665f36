pub mod Playing
pub mod Numbers
pub mod WrittenRows
pub mod Steady
pub mod Sending
pub mod Starting
pub mod Taking
pub mod HonestRows
