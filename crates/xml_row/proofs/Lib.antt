mod Laws
mod Strings
