pub mod Words
pub mod Complex
pub mod Event
pub mod Command
pub mod Form
pub mod Spelled
pub mod Statements
pub mod SystemNames
