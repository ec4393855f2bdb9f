pub mod Outcome2017
pub mod NothingRead
pub mod SeenLine
pub mod SomeWord
