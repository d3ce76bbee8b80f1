mod ByteLaws
mod TakenLaws
mod AnswerLaws
