pub mod Exchanges
pub mod KeptValues
pub mod KeptTexts
pub mod Doors
