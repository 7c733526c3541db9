mod Fresh
mod Taken
