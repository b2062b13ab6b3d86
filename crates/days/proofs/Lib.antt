pub mod Answers
mod Months
mod Years
