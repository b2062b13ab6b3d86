mod Starting
mod Ends
mod Chain
