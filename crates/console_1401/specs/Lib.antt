pub mod Attended
pub mod ImageLoading
pub mod SeatTurns
pub mod Served
