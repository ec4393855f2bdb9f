pub mod TopLines
pub mod Walk
