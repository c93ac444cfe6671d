pub mod Runs
pub mod Skipping
pub mod Spelling
pub mod Grammar
pub mod NumberTexts
pub mod First
pub mod Progress
pub mod Shorts
