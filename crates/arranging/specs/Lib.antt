pub mod LentArranged
