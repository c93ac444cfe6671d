pub mod Joined
pub mod SmallKinds
pub mod Single
pub mod Choices
