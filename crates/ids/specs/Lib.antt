pub mod LentFirsts
pub mod LentScreened
