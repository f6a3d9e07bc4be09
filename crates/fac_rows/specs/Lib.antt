pub mod EntryCodes
pub mod NumberedRows
pub mod RowBinding
pub mod RowNumbers
pub mod SeenBindings
pub mod SeenOwn
pub mod inner
