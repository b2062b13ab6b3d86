pub mod Blanks
pub mod Padded
pub mod Numbers
pub mod Held
pub mod Back
pub mod Ranks
pub mod Over
