pub mod Hearing
pub mod Input
pub mod Kept
pub mod Piece
