pub mod Look
pub mod LentLook
