-- bytes of a device, known of several calls
pub mod Known
-- what a newline does to the line and the column, and where the lines of a text begin
pub mod Newlines
pub mod Lines
-- an edit undone
pub mod Edits
-- the newlines of a stretch
pub mod Counting
-- chunks: their bytes, and how full they are
pub mod Joined
pub mod Fullness
-- parts and stretches of a text
pub mod Parts
pub mod Runs
-- sums over chunks, the lines found by them, and sums that move
pub mod Summing
pub mod Starts
pub mod Moving
-- items that are brought to a place of a row
pub mod Rows
-- chunks that are filled, and what stands around an edit in those that give way
pub mod Filled
pub mod Around
-- several splices
pub mod Splices
