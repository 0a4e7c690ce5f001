pub mod Carried
pub mod Cursor
