pub mod Halves
pub mod Puts
pub mod Cleans
pub mod OneHalf
