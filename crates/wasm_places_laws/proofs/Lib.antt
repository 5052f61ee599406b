mod Bodies
mod Chunks
mod Dense
mod Lists
mod Places
mod Read
mod Spelled
mod Written
