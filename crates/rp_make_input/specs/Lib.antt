pub mod Bytes
pub mod MadeFolders
pub mod MadeSources
pub mod MakeInput
pub mod Texts
