pub mod ControlOctets
pub mod Digits
pub mod Firsts
pub mod Headers
pub mod Layouts
pub mod Septets
pub mod Words
