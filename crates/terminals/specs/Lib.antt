pub mod Terminals
pub mod Claims
