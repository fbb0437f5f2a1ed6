mod Meeting
mod Three
