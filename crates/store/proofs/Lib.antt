-- The laws of the crate `store`.
pub mod Flag
pub mod StoreList
