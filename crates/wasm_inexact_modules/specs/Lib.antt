pub mod Inexact
