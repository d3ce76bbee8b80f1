pub mod FaultLaws
