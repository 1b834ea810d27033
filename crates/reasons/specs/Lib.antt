pub mod Why
pub mod LentReasons
