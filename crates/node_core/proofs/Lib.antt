pub mod PlanDone
pub mod NodeKept
pub mod Fronted
pub mod Fronts
pub mod EventNamed
