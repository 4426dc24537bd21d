pub mod Context
