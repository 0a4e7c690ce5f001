-- What shows and the end print.
pub mod Follows
pub mod Prints
pub mod Shows
pub mod Within
pub mod Ends
pub mod Examples
