-- The definitions of the crate `undo_list`.
pub mod History
pub mod Words
