pub mod VisitLemmas
