pub mod RowTexts
pub mod LineTexts
pub mod TypeTexts
pub mod HeadTexts
pub mod Filling
pub mod Whole
