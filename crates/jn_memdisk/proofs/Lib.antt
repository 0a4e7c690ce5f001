pub mod Strike
pub mod Within
