mod Showing
mod Claims
