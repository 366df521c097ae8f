pub mod LineLaws
pub mod ScriptLaws
pub mod Examples
