pub mod Counting
pub mod Field
pub mod Inspection
pub mod Line
pub mod Rule
pub mod Steps
pub mod Text
