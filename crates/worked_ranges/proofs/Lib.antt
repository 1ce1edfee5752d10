mod CallerLemmas
mod EndLemmas
mod SmallOpening
mod WholeParts
