mod Asked
mod Beginnings
mod OnePlace
