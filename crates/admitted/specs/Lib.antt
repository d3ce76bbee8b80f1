pub mod Admitted
pub mod JudgeLaws
pub mod CountLaws
pub mod AdmitLaws
pub mod Holds
pub mod StepLaws
