pub mod Marks
pub mod Runs
