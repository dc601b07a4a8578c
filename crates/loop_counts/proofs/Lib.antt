pub mod CountedWords
pub mod PlainRows
pub mod Fixed
