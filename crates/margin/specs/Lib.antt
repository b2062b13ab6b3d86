pub mod Blanks
pub mod Sums
pub mod Openings
pub mod Figures
pub mod Held
