mod PackedLemmas
mod PagesLemmas
mod SegmentLemmas
