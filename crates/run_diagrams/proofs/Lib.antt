pub mod MarksAdded
mod FoldedRows
