pub mod Operands
pub mod Lines
pub mod Spelled
pub mod Printed
pub mod Reading
pub mod Laws
