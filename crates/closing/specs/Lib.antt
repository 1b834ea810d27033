pub mod LentClosed
