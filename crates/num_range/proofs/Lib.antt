pub mod BlockEnds
mod CoverRows
