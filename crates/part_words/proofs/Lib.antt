pub mod PartTells
