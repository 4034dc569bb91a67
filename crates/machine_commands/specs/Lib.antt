pub mod FaultText
pub mod RefusalText
