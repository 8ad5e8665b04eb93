mod Flags
mod Moves
mod Plain
mod Joined
