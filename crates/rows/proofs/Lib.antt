pub mod Visits
pub mod Words
pub mod WordSteps
pub mod Quiets
pub mod Fixed
