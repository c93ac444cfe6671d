pub mod Trees
pub mod Tables
pub mod Sizes
pub mod Sound
pub mod Rooms
pub mod Claims
