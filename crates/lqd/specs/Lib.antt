pub mod Ports
pub mod Events
pub mod LongestQueueDrop
pub mod Schedules
pub mod Promises
pub mod WorkedRuns
