pub mod Plain
