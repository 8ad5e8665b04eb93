pub mod Megabytes
