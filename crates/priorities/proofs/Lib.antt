mod Row
pub mod Turns
