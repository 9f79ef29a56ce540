-- What is shown of the texts of answers.
pub mod Texts
