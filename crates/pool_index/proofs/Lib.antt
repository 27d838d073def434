mod Indexing
