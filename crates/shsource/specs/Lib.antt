pub mod Text
pub mod Meter
