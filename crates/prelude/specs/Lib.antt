pub mod Bytes
pub mod inner
pub mod Limits
pub mod Pick
pub mod Refusals
