pub mod DigitLaws
pub mod VariableLaws
pub mod AssignLaws
pub mod AskLaws
pub mod Sets
