-- a line without the trees in its command substitutions
pub mod WholeLines
-- what is read where each turn leads on: the laws of forms, then the rows, from words up to scripts
pub mod Forms
pub mod Words
pub mod Commands
pub mod Compounds
pub mod Scripts
-- what follows: it may be read, and a repetition that never moves has no outcome
pub mod FromOnward
pub mod Idle
-- empty lines, ends of bodies, and the flags of entries
pub mod BlankLines
pub mod BodyEnds
pub mod LineFlags
-- nodes put in order
pub mod NodesInOrder
-- pieces by their bytes, and quote removal byte by byte
pub mod PieceBytes
pub mod QuotePieces
pub mod QuoteReading
pub mod QuoteSteps
