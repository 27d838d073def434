mod Tallies
mod Measuring
mod Passing
