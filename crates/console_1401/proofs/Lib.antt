pub mod AttendedLemmas
pub mod ImageLoadingLemmas
pub mod SeatTurnsLemmas
pub mod ServedLemmas
