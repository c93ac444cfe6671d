pub mod Sentences
pub mod Claims
pub mod inner
