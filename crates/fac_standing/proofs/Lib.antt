pub mod StandingSteps
pub mod SparedCode
pub mod StandingRuns
pub mod StandingViews
pub mod StandingArrays
pub mod StayingEffects
pub mod LongerRuns
