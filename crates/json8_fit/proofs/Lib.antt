pub mod TableNodes
pub mod Choices
pub mod Fitting
pub mod Roots
