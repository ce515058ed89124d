pub mod Map
pub mod Points
