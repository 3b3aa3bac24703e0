pub mod Unreadable
