pub mod Inside
pub mod Fixed
