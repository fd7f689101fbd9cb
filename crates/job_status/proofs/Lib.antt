mod ColumnLemmas
mod LengthLemmas
