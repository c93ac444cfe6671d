pub mod Class
pub mod Utf8
pub mod Claims
pub mod inner
