pub mod EdgesAdded
pub mod JoinFacts
pub mod LeavingTurn
pub mod FrontLength
pub mod JoinAnswers
