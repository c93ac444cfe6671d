pub mod LiteralUnits
pub mod EscapeStores
pub mod OneCharacter
pub mod SingleLaws
pub mod Sizes
pub mod UnitLaws
pub mod WrittenBack
pub mod WrittenUnits
