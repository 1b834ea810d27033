pub mod WidthsRead
