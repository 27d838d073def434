pub mod Parts
mod Blocks
