pub mod CoordinateLaws
pub mod OddLaws
pub mod PanelledLaws
pub mod ReachLaws
