mod Computed
mod Lines
