pub mod UseLaws
pub mod BegunLaws
pub mod HoldLaws
pub mod EndLaws
