pub mod Onward
pub mod Blank
pub mod Bodies
pub mod Order
pub mod Quotes
