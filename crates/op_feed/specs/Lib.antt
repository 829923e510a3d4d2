pub mod PieceChanges
pub mod EntryChanges
pub mod TouchedBy
pub mod ReachedBoard
pub mod Briefs
pub mod Window
