mod Begins
pub mod Loops
pub mod Reading
pub mod Stages
pub mod Rooms
