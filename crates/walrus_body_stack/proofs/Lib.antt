mod Handling
mod Piles
mod Nests
mod Closing
mod Labels
