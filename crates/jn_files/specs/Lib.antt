pub mod Table
pub mod Pages
pub mod Calls
pub mod Inside
pub mod Maps
