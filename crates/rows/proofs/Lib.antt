pub mod Held
pub mod RowRecords
pub mod LiftedRows
