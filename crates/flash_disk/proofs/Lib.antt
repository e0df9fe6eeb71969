mod Learning
mod Topmost
mod Usable
mod Lengths
mod Lightest
mod Leading
mod Leaving
mod Opened
mod Reading
mod Programming
pub mod Parts
pub mod Stretches
pub mod DiskCases
pub mod DiskWrites
pub mod Standing
pub mod Sparing
pub mod Growing
pub mod Tearing
pub mod Writing
pub mod Entering
pub mod Counting
pub mod Spreading
pub mod Missing
pub mod Adding
pub mod Moving
mod Clearing
pub mod Moved
mod Joins
mod Pairs
mod Crowding
mod Looking
mod Turning
mod Losing
mod Marking
mod Holding
mod Filled
mod Gathering
mod Steps
pub mod Entries
pub mod Accounting
pub mod Affording
pub mod PageCount
pub mod Throughout
pub mod Times
pub mod Unchanged
pub mod Failing
mod Fresh
pub mod Hiding
pub mod Emptying
pub mod Needing
pub mod Giving
pub mod NewestLaws
pub mod FlashFilesLaws
