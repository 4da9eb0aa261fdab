pub mod SlabLaws
