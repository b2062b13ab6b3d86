pub mod Written
mod Digits
pub mod Spelled
