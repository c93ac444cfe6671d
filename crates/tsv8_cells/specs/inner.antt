pub mod Runs
pub mod Typed
pub mod Texts
pub mod Told
pub mod Simple
