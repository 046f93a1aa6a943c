pub mod Bursts
pub mod Memories
