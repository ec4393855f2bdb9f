pub mod Marks
pub mod Message
pub mod Printed
pub mod ReadBack
pub mod Written
