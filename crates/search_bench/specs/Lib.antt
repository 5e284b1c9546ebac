pub mod Used
pub mod UsedLaws
