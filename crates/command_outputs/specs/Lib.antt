pub mod Outcomes
pub mod Outputs
pub mod Pages
pub mod Claims
