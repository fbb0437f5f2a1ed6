mod Finding
mod Kinding
mod Reaching
mod Reading
