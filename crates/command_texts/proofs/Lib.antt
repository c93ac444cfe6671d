pub mod Puts
mod TextLines
