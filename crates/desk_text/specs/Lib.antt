pub mod Vocabulary
pub mod RequestText
pub mod EntryText
pub mod ReplyText
pub mod ShownText
pub mod DueText
