pub mod Stream
pub mod Query
pub mod Ask
pub mod Answer
