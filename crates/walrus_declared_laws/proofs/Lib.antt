mod Added
mod Retyped
mod Agreed
mod Emitted
mod Wanted
mod Marks
mod There
mod Standing
