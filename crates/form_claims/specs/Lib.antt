-- The claims of the crate `form_claims`.
pub mod Claims
