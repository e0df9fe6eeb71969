pub mod Working
mod Keeping
pub mod Alone
pub mod Fulls
pub mod PlanSteps
pub mod Ruled
pub mod Shown
pub mod Made
pub mod Cleaned
pub mod Around
pub mod Taken
mod Released
mod Traced
pub mod InPlace
mod Costs
pub mod Opened
pub mod Finds
pub mod StoreViews
pub mod Moments
pub mod Created
pub mod GivenUp
mod InOrder
mod Places
mod Changed
pub mod Committed
pub mod CommitKept
mod Earlier
mod Put
pub mod Rebuilt
pub mod TakenBlocks
pub mod Prepared
pub mod RebuiltKept
mod Standing
mod Lengths
mod Room
mod Finished
mod ReadStates
