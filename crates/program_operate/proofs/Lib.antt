pub mod SatLemmas
