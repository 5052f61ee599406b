pub mod Bodies
pub mod Code
pub mod Order
pub mod Part
pub mod Places
