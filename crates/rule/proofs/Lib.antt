pub mod PairLaws
pub mod Theorems
pub mod Origins
pub mod Bridge
pub mod Worked
