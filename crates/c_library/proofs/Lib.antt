mod Answered
mod Rows
mod Written
mod Putting
mod Tells
mod Said
mod Seen
