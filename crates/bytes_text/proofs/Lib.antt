pub mod AddsLemmas
