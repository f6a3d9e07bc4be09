pub mod First
pub mod Heads
