-- What only the contracts of inner functions cite.
pub mod UsedEffects
pub mod Walkable
pub mod ItemWalk
pub mod OwnEffects
pub mod KnownClasses
pub mod Walking
pub mod UndeclaredRecursion
pub mod Alone
pub mod BrokenRules
pub mod Searching
pub mod Pieces
