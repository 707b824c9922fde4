pub mod Searching
pub mod Turning
pub mod HandingDown
