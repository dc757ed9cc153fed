-- That the program's tables have the room for what it draws and what it reads, and what its steps come to.
pub mod Rooms
pub mod Inputs
pub mod Steps
