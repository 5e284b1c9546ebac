pub mod Rows
pub mod Figures
