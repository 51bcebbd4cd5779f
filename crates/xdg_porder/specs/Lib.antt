pub mod Family
pub mod Items
pub mod Sides
pub mod Across
pub mod Lasting
pub mod Yields
