pub mod LentWaits
