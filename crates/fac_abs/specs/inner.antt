-- What only the contracts of inner functions cite.
pub mod Stacks
pub mod Keeping
pub mod Interning
pub mod Framing
