mod SentenceLines
mod Apart
pub mod Claims
