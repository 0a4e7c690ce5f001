pub mod Summary
pub mod Summing
pub mod Taken
pub mod Spell
