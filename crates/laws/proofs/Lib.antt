pub mod Lists
pub mod Logic
