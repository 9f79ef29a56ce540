-- What takes commands back, which commands a match leaves, and that the code's calls do what the definition says.
pub mod Taken
pub mod Ran
