pub mod OneItem
pub mod WholeItem
