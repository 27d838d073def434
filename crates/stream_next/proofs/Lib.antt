mod Magic
mod Onward
