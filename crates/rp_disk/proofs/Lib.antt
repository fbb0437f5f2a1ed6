mod KeptLemmas
mod LogWalk
pub mod Agreeing
pub mod Pushing
pub mod Blocks
pub mod Ranges
pub mod OneCall
pub mod Law
pub mod Opened
pub mod Runs
pub mod Noting
mod Own
pub mod OwnBytes
pub mod Failing
