pub mod Pages
pub mod State
pub mod FlashMedium
pub mod History
pub mod HistoryLaws
pub mod Silence
pub mod Memory
