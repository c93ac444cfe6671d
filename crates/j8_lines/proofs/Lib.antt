pub mod Snoc
pub mod Step
pub mod WholeList
