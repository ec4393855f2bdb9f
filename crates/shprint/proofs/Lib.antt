-- what the code has still to print, and what it copies from the source
pub mod Copying
pub mod Writing
pub mod Parts
pub mod Rows
pub mod Spaced
-- good shapes: what a shape has so that its printed text is read back
pub mod Good
pub mod GoodRows
-- what was read has a good shape: here-documents and numbers, then the rows
pub mod Due
pub mod BodiesOfParts
pub mod Digits
pub mod ReadableForms
pub mod ReadableCommands
pub mod ReadableCompounds
-- what is printed for a good shape is read as a tree of that shape: rows put together, tokens and what waits
pub mod Gives
pub mod Tokens
pub mod Held
pub mod PrintedText
-- so are redirections with their documents, items and simple commands, and-or lists, and lists
pub mod PrintedRedirects
pub mod PrintedItems
pub mod PrintedCommands
pub mod PrintedLists
-- and compound commands, by the words that open, part and close them; then a line of a script
pub mod PrintedReserved
pub mod PrintedGroups
pub mod PrintedBranches
pub mod PrintedFor
pub mod PrintedCases
pub mod PrintedRows
-- both put together: what is printed of a script that was read is read back
pub mod ReadBack
