pub mod Width
pub mod Apply
