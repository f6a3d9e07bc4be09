pub mod Machine
pub mod Below
pub mod MachineLaws
pub mod Renaming
pub mod Collected
pub mod RenamedRuns
