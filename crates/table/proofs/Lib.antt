pub mod BucketLaws
pub mod TableLaws
pub mod MemoryLaws
pub mod Face
pub mod AddLaws
pub mod KeyLaws
pub mod Sets
mod SameLaws
