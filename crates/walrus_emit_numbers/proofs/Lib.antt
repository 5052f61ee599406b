mod Counting
mod Marks
mod OneOrder
mod Orders
mod Zips
