pub mod Results
pub mod Uploads
pub mod Tables
pub mod Sheets
pub mod Claims
