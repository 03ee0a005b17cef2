pub mod Chain
pub mod File
pub mod Form
pub mod Reading
pub mod Printed
