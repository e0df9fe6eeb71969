pub mod RootText
pub mod Views
