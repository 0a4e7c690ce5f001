-- What shows and the end print.
pub mod Example
