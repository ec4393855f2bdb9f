-- what was told of an input
pub mod Told
-- what is read of an option
pub mod Options
-- what a check and a print report, and what is held of a script as more is read
pub mod Reported
pub mod Parts
-- the words: a subcommand in the first, and those that are read without `clap`
pub mod FirstWord
pub mod PlainWords
