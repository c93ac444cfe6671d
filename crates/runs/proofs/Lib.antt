pub mod BlockLaws
pub mod LiteralRuns
pub mod ThreeBytes
