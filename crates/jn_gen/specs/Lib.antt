pub mod Trial
pub mod Texts
pub mod Spell
