mod PassesLemmas
pub mod PoolLemmas
