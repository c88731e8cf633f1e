-- Workers and their outputs, and what a reducer makes of these, in the order to read them.
pub mod Workers
pub mod Reduced
pub mod Dealt
pub mod Rounds
