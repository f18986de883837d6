mod Looks
mod Pages
