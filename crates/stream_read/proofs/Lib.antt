mod Events
mod Needs
mod Whole
mod Along
