-- The laws of the undo list: of places round a ring, and of reading words after stores.
pub mod Ring
pub mod Words
