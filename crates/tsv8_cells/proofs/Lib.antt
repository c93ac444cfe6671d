pub mod Places
pub mod Numerals
pub mod CellTexts
pub mod Stripped
pub mod Solid
