mod Behind
mod Going
mod Held
mod Stepping
mod Threads
