mod Differing
mod Ends
mod Finding
