-- the lines that a session holds: those of its script, walks over them, entries where they stand
pub mod TopLines
pub mod Walking
pub mod LastLine
pub mod Placed
-- what is printed of them, and the window of an edit
pub mod Printing
pub mod Windows
-- what is read of a request: bytes that wait, the words of its line, bytes that are taken
pub mod Passed
pub mod Words
pub mod Taken
-- what is replied: what came of an edit, texts without a newline, and piece by piece
pub mod Came
pub mod InLine
pub mod Written
-- the requests that bytes spell, and a run over them
pub mod Asked
pub mod Running
-- the public laws: one list of requests, one answer, and any edits
pub mod OneList
pub mod OneAnswer
pub mod AnyEdits
