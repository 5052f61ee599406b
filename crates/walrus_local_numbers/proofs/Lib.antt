mod Orders
mod Members
mod Numbering
mod Counting
mod Following
