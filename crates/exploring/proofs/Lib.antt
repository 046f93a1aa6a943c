mod FirstLemmas
mod FoundLemmas
mod ReportLemmas
mod WordLemmas
mod LooseLemmas
mod ServingLemmas
