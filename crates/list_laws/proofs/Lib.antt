pub mod Lists
pub mod Mapping
pub mod Results
pub mod Sums
