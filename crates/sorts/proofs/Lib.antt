pub mod SortedCubes
pub mod Fixed
