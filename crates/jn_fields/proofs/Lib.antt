pub mod Fields
pub mod NamesAgain
pub mod Lists
