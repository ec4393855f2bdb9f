pub mod Answers
pub mod Outcome2017
