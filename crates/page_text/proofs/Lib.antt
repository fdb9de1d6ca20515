mod Splits
mod Numerals
mod Hexes
mod Spaces
mod Results
mod Parsed
mod Faults
