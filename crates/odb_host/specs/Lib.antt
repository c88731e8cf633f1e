-- How a real disk turns the system's answers into its own, and how it lists what it reads of a directory.
pub mod HostDisk
pub mod HostListing
