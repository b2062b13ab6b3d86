pub mod Options
pub mod Refusals
