pub mod Read
pub mod Ranks
pub mod Section
