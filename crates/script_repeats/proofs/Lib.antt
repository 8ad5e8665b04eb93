mod Brought
mod Opening
mod Alike
