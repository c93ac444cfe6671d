mod Objects
pub mod OneLines
pub mod Claims
