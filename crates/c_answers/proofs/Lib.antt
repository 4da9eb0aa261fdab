pub mod ReadBack
pub mod TellLaws
pub mod PiecePromise
