pub mod GlanceLaws
pub mod SeenPast
