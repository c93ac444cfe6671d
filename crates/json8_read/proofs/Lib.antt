pub mod Spreading
pub mod Whole
