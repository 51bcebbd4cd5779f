pub mod Lexed
pub mod Offends
pub mod Pieces
pub mod Spans
