pub mod GlyphWords
pub mod ReadWords
pub mod WidthWords
