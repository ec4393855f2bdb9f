pub mod Carried
pub mod Gathered
