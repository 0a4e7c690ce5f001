pub mod Input
pub mod Streams
pub mod Pieces
