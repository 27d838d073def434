mod Laws
mod Turns
mod Calls
