pub mod RefusalLemmas
pub mod ScenarioLemmas
pub mod StageLemmas
pub mod OneLemmas
pub mod SizeLemmas
