pub mod ShortSets
pub mod LowShapes
pub mod LowTables
pub mod Rows
pub mod ReadableLaws
