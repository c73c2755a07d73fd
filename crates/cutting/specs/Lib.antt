pub mod Faults
pub mod Cutting
pub mod Laws
pub mod Stuffing
pub mod StuffingLaws
