pub mod Notes
pub mod ReadBack
pub mod Fixed
