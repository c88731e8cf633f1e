-- Laws of listings of the folders of packs: which rows they have, which streams they read, why they break, and how many turns they take.
pub mod Lists
pub mod Known
pub mod Differ
pub mod Rows
pub mod Apart
pub mod Streams
pub mod Reads
pub mod Folders
pub mod Tells
pub mod Turns
pub mod Base
