pub mod PartialScript
pub mod Report
pub mod Words
pub mod Gathering
