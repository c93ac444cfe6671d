pub mod Read
pub mod inner
