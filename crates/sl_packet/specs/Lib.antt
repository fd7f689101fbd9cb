pub mod Progress
pub mod States
pub mod Cuts
pub mod UnfinishedValues
