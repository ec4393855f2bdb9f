-- the lines of scripts keep to the laws of held lines
pub mod TopLines
-- the script of a row of lines, and a line where it stands in it
pub mod Rows
pub mod Within
pub mod Places
-- nodes and outlines of a script by those of its lines
pub mod Nodes
pub mod NodesAt
pub mod BeforeNewline
pub mod Outlines
-- what a line is, as a tree of numbers
pub mod Codes
-- no row leads past its text, each text has a row of lines, and each edit one window
pub mod InText
pub mod LastLine
pub mod Windows
