pub mod Fair
pub mod Limited
pub mod Numbers
pub mod Backslashes
pub mod Claims
