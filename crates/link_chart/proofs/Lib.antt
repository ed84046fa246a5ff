mod Filled
mod Repricing
mod Tables
