mod Codes
mod Row
mod Turns
