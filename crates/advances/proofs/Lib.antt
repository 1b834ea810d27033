pub mod WidthsBack
