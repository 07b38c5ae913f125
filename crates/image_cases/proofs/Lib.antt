pub mod ImageCases
