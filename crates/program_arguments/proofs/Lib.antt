mod PairLemmas
mod NameLemmas
mod NumberLemmas
mod MountLemmas
