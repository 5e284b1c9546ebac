pub mod Model
pub mod Faults
pub mod Count
pub mod Gap
pub mod Both
pub mod BothLaws
pub mod CountLaws
pub mod GapLaws
