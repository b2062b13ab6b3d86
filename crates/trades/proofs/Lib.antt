mod Row
pub mod Tables
mod Turns
