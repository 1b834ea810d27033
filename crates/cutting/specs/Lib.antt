pub mod LentCut
