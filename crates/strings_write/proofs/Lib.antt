pub mod AmpleRoom
pub mod ValidTexts
pub mod WriteLengths
pub mod WriteSteps
pub mod Writing
