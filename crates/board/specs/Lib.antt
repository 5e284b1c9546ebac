pub mod Faults
pub mod Quarters
