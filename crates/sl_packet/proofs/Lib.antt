mod NumberLemmas
mod ByteLemmas
mod PieceLemmas
mod EndLemmas
mod CutterLemmas
