pub mod Lanes
pub mod Marks
pub mod Places
pub mod Stores
