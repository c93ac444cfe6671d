mod Parts
mod Lines
mod Printing
mod Ends
