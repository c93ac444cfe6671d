pub mod Styles
pub mod Marks
pub mod Literals
