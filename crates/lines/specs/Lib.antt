pub mod Line
pub mod Answers
pub mod inner
