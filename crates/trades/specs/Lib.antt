pub mod Read
pub mod Found
pub mod Section
