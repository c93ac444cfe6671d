pub mod Hex
pub mod Escapes
