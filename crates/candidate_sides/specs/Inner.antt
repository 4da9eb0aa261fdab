pub mod Slab
