pub mod StoreTells
