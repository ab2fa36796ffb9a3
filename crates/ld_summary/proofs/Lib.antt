mod ActLemmas
mod ListedLemmas
mod PlanTextLemmas
mod PlannedLemmas
mod ScenarioLemmas
mod SettledLemmas
