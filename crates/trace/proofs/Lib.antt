pub mod Digits
pub mod Fields
pub mod Reading
pub mod Cutting
pub mod Columns
pub mod Inspecting
pub mod Verdicts
