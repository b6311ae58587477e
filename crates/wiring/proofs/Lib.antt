pub mod Rewired
pub mod Halves
pub mod Same
pub mod Story
pub mod Exactly
pub mod FunctionSet
