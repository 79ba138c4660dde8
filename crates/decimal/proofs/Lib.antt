mod Lasts
mod Writes
