pub mod ModeLaws
pub mod NamedLaws
pub mod Own
