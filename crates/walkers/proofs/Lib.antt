-- The lemmas of this crate.
pub mod Chains
pub mod Items
pub mod Regions
pub mod Containers
pub mod Growing
pub mod Stores
pub mod Loops
pub mod Unnoted
pub mod Always
pub mod Bare
pub mod HeldSteps
pub mod WalkLaws
pub mod Setting
pub mod Saying
pub mod FourConfigs
pub mod Tabling
