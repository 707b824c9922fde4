pub mod Written
