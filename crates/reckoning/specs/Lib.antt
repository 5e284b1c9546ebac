pub mod Log
pub mod Fates
pub mod Sound
pub mod Theorems
