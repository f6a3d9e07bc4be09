-- What no contract cites: that what stands in a phrase or an effect is smaller than it is.
pub mod PhraseFalls
