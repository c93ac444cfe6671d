pub mod Decimals
pub mod Claims
