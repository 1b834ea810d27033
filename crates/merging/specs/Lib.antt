pub mod LentHeld
pub mod LentOptimized
