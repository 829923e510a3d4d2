pub mod Local
pub mod Handles
pub mod PieceObjects
pub mod Spaces
pub mod RangeLists
pub mod CutObjects
pub mod HolderObjects
pub mod NextChanges
pub mod Fewness
pub mod Boards
mod Briefs
