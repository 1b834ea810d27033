pub mod Lent
pub mod LentAxes
