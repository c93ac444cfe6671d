pub mod Nodes
pub mod Leaves
pub mod Values
pub mod Read
pub mod Claims
pub mod inner
