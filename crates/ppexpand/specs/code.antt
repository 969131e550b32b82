-- Vocabulary of the code: only contracts, views and other vocabulary of the code cite these files, in this crate and in ppexpr. No theorem rests on them.
pub mod Lists
pub mod OpenSearch
pub mod ProgramValues
pub mod Skipping
