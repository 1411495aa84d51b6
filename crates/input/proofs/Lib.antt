mod Came
mod Reading
mod Within
