mod Flats
mod Turns
mod Copies
mod Quickly
