-- The definitions of the crate `undo_words`.
pub mod Journal
