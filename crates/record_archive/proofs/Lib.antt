mod PlaceLemmas
mod PutLemmas
mod ApartLemmas
mod StepLemmas
