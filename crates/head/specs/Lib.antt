pub mod Fields
pub mod Read
