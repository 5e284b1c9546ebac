pub mod Numbers
pub mod Fields
pub mod Lines
pub mod Openings
pub mod Texts
pub mod Replies
pub mod Buffers
pub mod LineBuffers
