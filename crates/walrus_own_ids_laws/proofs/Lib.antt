mod Slots
mod OwnIds
mod Functions
