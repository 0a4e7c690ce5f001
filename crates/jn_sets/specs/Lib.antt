pub mod Pool
pub mod Sets
