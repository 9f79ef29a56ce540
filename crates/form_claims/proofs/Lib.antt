-- The proofs of the crate `form_claims`.
pub mod Numbers
pub mod Written
pub mod ReadBack
pub mod Bounded
pub mod Lists
pub mod Sessions
pub mod Theorems
pub mod Witness
