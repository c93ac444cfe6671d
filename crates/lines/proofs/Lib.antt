pub mod LineEnds
pub mod BareTexts
pub mod Refusing
pub mod LineAnswers
