mod Searches
mod Seeking
