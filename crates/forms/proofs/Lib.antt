mod Rows
mod Shapes
mod ByKind
