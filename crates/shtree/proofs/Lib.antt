-- whether a test holds of nodes from a place on
pub mod AllFrom
-- nodes: gathered part by part, put in order, and at a base
pub mod Gathering
pub mod InOrder
pub mod Placed
-- copies: parts with the spans that they get, and nodes after others
pub mod Carrying
pub mod Tail
