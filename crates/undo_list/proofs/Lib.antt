-- How the words of the undo list follow a command.
pub mod Noted
