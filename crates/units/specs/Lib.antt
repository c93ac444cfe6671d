pub mod Units
pub mod Written
