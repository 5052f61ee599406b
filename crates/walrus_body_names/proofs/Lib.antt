mod Same
mod Gathering
mod Sets
