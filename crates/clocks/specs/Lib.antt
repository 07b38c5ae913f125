pub mod Goes
pub mod Rooms
pub mod Clocks
pub mod Stands
