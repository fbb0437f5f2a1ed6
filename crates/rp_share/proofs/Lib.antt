mod AgainLemmas
mod LawLemmas
mod LevelLemmas
mod NextLemmas
mod Numbers
pub mod Public
mod RestLemmas
mod ValueLemmas
