pub mod ByLine
pub mod SubstsUnseen
