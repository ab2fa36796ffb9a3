pub mod KnownLemmas
pub mod OrderLemmas
pub mod RulesLemmas
