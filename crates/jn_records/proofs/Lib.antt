mod Common
pub mod Roots
pub mod Lists
pub mod Heads
pub mod HeadPages
pub mod Malformed
pub mod IntentionsAgain
pub mod RecordsAgain
pub mod NetLemmas
pub mod CarriedLemmas
pub mod FilesThereLemmas
pub mod EditLemmas
pub mod MapPlaces
pub mod Layouts
pub mod PartCuts
pub mod Supplied
