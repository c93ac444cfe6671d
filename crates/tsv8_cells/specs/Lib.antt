pub mod Parts
pub mod Types
pub mod Cells
pub mod inner
