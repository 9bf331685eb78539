mod Packing
mod Pairing
