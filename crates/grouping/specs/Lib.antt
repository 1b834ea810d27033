pub mod LentGroups
