pub mod Added
pub mod Picks
pub mod RootLists
pub mod Segments
pub mod Told
