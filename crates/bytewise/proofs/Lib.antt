pub mod ByteTexts
pub mod Fronts
