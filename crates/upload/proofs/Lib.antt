pub mod Kept
pub mod Values
pub mod Runs
