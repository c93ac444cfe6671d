mod Entries
pub mod Claims
