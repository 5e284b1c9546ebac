pub mod Leading
pub mod Seeing
