pub mod JoinedFaces
pub mod Fixed
