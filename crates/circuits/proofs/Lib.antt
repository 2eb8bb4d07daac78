pub mod AppendLaws
pub mod AddLaws
pub mod CompareLaws
pub mod MultiplyLaws
