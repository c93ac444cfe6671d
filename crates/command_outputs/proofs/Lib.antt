mod Printing
mod Adding
pub mod Ends
pub mod Claims
