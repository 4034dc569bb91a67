pub mod AnswerText
pub mod CardText
pub mod CommandText
pub mod ConsoleLine
pub mod FitText
pub mod LineText
pub mod Words
