-- here-documents: what the loops over their lines, and over their word, come to
pub mod Awaited
-- turns of a row: what stops a loop over them, and what goes on
pub mod Stops
pub mod Loops
-- what is kept of a tree
pub mod Kept
-- bytes: the search for one, the tables of the sets, and those of a class
pub mod Searches
pub mod ByteSets
pub mod Passed
-- an empty line, reserved words by two bytes, where memory is wanted, and the token at the end
pub mod EmptyLine
pub mod TwoBytes
pub mod Wanted
pub mod NoToken
-- where a line ends, its comment, and the stretch in which a cursor stands
pub mod LineEnds
pub mod Comments
pub mod Front
