pub mod Barred
pub mod Closed
pub mod Counted
pub mod Decided
pub mod Firsts
pub mod Free
pub mod Headers
pub mod Rooms
