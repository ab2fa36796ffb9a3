pub mod DeliveryLemmas
pub mod EndLemmas
pub mod RunLemmas
pub mod SayingLemmas
