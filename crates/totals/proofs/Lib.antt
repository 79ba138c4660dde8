mod Paper
mod Turns
