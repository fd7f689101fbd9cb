pub mod Values
pub mod Texts
pub mod Escapes
pub mod Places
pub mod Templates
pub mod Hosts
pub mod Requests
pub mod Answers
