pub mod RatesView
pub mod Shows
pub mod Applies
pub mod Answer
