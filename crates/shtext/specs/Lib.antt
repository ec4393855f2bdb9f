pub mod Edit
pub mod Rows
pub mod Chunks
pub mod Buffer
pub mod Device
pub mod Begin
