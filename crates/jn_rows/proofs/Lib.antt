pub mod Apart
pub mod ClientKeeps
pub mod Left
