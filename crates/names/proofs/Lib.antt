pub mod MarkLaws
pub mod KindLaws
pub mod LineLaws
pub mod SymbolLaws
pub mod NameLaws
pub mod FindLaws
pub mod Sets
