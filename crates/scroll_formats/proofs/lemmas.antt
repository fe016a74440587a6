pub mod SpanLemmas
pub mod ManyLemmas
pub mod ZerosLemmas
pub mod callers
