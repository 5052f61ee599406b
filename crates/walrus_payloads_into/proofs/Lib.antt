mod Lookups
mod Fronts
