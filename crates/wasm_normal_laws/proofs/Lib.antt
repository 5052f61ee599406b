mod Orders
mod Numbers
mod Names
mod Bodies
