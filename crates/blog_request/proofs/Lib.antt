mod Among
mod Cuts
mod Numbers
mod Ranges
