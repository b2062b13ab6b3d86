pub mod Fixed
pub mod List
pub mod Useless
