pub mod ReaderLaws
pub mod LoopLaws
pub mod FinishLaws
pub mod TermLaws
pub mod SpanLaws
pub mod Sets
