pub mod RowTests
pub mod Multiples
