pub mod SearchOrder
pub mod Signs
pub mod Meanings
pub mod Accepted
pub mod Standing
