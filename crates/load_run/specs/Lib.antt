pub mod Conserved
pub mod Drawable
