mod Fields
pub mod Row
