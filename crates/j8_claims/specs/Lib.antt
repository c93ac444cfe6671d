pub mod Lists
pub mod Sheets
pub mod Faults
pub mod Claims
