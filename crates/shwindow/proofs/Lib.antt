-- boundaries, and old lines that are passed
pub mod Boundaries
pub mod Hands
-- lines in blocks, and how a row of lines is mended
pub mod Joined
pub mod Mending
-- places among lines, the reading of a window, and rows of lines
pub mod Places
pub mod Reading
pub mod Rows
-- that each edit has a window, and the bytes of an edited text
pub mod SomeWindow
pub mod Splices
-- how code mends a row step by step, and what stays around the window
pub mod Steps
pub mod Windows
-- two readers with the same lines
pub mod Alike
