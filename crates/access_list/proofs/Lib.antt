mod OctetLemmas
mod MaskLemmas
mod ParseLemmas
mod SameLemmas
