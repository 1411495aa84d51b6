pub mod Text
pub mod Adds
pub mod AddsLaws
pub mod Said
pub mod SaidLaws
