pub mod WholeReports
pub mod CutReports
pub mod Headline
