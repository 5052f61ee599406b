mod Bodies
mod Order
mod Part
mod Sections
mod Texts
