pub mod Candidates
pub mod Rules
pub mod Sheltered
pub mod Picking
pub mod Layers
