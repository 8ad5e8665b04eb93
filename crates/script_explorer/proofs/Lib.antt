mod Led
mod Whole
mod OneMore
mod Alike
mod Summary
