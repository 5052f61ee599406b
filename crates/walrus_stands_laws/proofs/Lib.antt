mod Declared
mod Turns
mod Placed
mod Types
mod Listed
mod Stands
