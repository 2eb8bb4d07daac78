pub mod LinkLaws
pub mod MarkLaws
pub mod Marking
pub mod Threading
pub mod Walking
pub mod Sets
