pub mod HexLaws
pub mod EscapeLaws
