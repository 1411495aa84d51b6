mod Digits
mod Signs
