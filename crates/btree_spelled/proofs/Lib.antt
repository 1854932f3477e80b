pub mod WiderLemmas
