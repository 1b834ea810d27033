pub mod LentWay
