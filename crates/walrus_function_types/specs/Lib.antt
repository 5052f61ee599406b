pub mod FunctionTypes
pub mod Growth
