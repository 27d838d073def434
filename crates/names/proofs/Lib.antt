mod Hashing
