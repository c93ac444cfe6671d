pub mod Blanks
pub mod Words
pub mod Numbers
pub mod Starts
pub mod inner
