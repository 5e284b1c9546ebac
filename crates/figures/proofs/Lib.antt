pub mod Fronts
pub mod Unmoved
pub mod Checks
pub mod Table
