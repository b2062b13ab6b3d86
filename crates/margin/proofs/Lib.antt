pub mod Backwards
pub mod Forwards
mod Gathered
pub mod Values
pub mod Positions
pub mod Trades
mod Parts
pub mod Paper
