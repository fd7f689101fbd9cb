pub mod Keepers
pub mod MemoryCalls
pub mod MemoryRecords
pub mod Rooms
pub mod Stores
