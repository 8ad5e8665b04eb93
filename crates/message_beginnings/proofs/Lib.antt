mod Completion
mod Fronts
mod Letters
mod Texts
mod Sized
