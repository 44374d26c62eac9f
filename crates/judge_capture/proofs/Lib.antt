mod Windows
mod Rooms
mod Taken
mod Runs
