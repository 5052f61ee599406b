mod Fits
mod Lists
mod Listed
mod Counted
