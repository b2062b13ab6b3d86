pub mod Padded
pub mod Numbers
pub mod Backs
pub mod Places
pub mod Ranks
mod Codes
pub mod Over
