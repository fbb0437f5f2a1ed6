pub mod Again
pub mod Due
pub mod Level
pub mod Share
pub mod Value
