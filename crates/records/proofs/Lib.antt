pub mod FormLaws
pub mod KindLaws
