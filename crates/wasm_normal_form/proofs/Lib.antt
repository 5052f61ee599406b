mod Nesting
mod Renaming
mod Worked
