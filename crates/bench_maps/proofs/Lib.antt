pub mod BeginsLemmas
