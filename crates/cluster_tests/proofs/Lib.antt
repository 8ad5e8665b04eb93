pub mod ThreadSafe
