pub mod LivingSteps
pub mod Unique
