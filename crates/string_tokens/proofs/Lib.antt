pub mod Counting
pub mod Filling
pub mod Judging
pub mod Numbers
pub mod Quoting
