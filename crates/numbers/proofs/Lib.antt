pub mod BitLaws
pub mod GlyphLaws
pub mod WidthLaws
