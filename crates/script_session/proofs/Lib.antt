pub mod NodesFirst
pub mod EventsLead
mod LineEvents
pub mod Led
pub mod PairStages
pub mod LineOutcomes
pub mod EventOutcomes
pub mod Turns
pub mod Idle
pub mod Untouched
