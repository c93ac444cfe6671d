pub mod Lists
pub mod Faults
pub mod Numbers
pub mod Returned
pub mod SentencesTold
pub mod Sheets
pub mod Claims
pub mod Unicode
