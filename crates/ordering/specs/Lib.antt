pub mod LentLiving
