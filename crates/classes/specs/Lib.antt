pub mod Read
pub mod Seen
pub mod Section
pub mod Search
