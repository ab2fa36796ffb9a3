pub mod LeastLemmas
pub mod RampLemmas
pub mod CountLemmas
pub mod TickerLemmas
pub mod ScheduleLaws
