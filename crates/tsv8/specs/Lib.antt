pub mod Lines
pub mod Read
pub mod Answers
pub mod inner
