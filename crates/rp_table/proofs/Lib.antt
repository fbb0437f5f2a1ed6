mod FromPlace
mod Judging
mod Reading
mod Saying
mod Shared
mod Slots
