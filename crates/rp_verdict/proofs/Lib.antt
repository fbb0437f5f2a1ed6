mod Finding
mod Judging
