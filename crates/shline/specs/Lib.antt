pub mod Limits
pub mod InHand
pub mod Beginnings
pub mod Listed
pub mod Clauses
pub mod Sought
pub mod Pieces
pub mod Rows
