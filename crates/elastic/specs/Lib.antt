pub mod LetterLaws
pub mod LetterRules
pub mod LetterRuns
pub mod Mails
pub mod Spelling
pub mod Theorem
pub mod code
pub mod laws
