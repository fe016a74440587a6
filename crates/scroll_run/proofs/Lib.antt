pub mod Fronts
pub mod NumberLemmas
pub mod CommandLemmas
pub mod PutLemmas
pub mod LineLemmas
pub mod AnswerLemmas
