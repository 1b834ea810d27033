pub mod MadeLaws
pub mod Own
