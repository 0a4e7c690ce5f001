mod Common
pub mod ShownLemmas
