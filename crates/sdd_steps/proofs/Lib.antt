pub mod ListLemmas
pub mod CountLemmas
pub mod FactLemmas
pub mod EnabledLemmas
pub mod StepLemmas
pub mod Law
pub mod Enabling
