-- Laws of ways: which paths are on them, what is there, and where they lead in trees that are alike there.
pub mod Alike
pub mod Further
pub mod Trod
pub mod Spots
pub mod Fronts
pub mod Stops
