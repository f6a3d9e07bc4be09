pub mod Origins
pub mod Traced
pub mod Traces
pub mod TraceLaws
pub mod Lists
