pub mod RootFields
