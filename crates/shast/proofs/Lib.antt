-- the definitions tied to texts and views, a row for each form and each place
pub mod Seen
pub mod Shaped
pub mod Spelled
-- rows of nodes and what a list ends and begins with
pub mod Picked
pub mod Last
pub mod Appended
pub mod Joined
pub mod Ends
pub mod Starts
pub mod Redirected
-- which offsets a tree names, part by part
pub mod Reach
-- bodies of here-documents put into a list and taken out
pub mod Going
pub mod Written
pub mod FilledBack
pub mod FilledBlind
pub mod OpenSame
pub mod FilledShape
pub mod FilledBodies
pub mod BodiesInOrder
-- the normal form looks at no text, no mark and no span
pub mod SameForm
pub mod FormMoved
-- copies of a list, and its nodes, elsewhere
pub mod MovedOver
pub mod NodesMoved
