pub mod Read
pub mod Known
pub mod Section
