pub mod LentCollected
pub mod LentOpened
pub mod LentTaken
