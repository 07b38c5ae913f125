pub mod PlaceLines
