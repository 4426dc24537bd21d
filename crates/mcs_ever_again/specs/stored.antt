pub mod Budget
pub mod Store
