pub mod Windows
pub mod Fixed
