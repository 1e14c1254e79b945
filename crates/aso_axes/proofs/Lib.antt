pub mod BelowLemmas
pub mod SetSteps
pub mod Examples
pub mod CountLemmas
pub mod WrongLemmas
pub mod RangeSteps
pub mod StoredRows
