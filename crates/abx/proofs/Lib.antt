mod Left
mod Queried
