pub mod MarkLaws
pub mod LiteralClasses
pub mod LiteralLaws
