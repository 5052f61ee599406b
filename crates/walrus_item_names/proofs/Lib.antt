mod Given
mod Lookups
mod Numbers
mod Slots
