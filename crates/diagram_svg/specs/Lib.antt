pub mod Escaping
pub mod Reading
pub mod Markup
pub mod Figures
pub mod Document
pub mod Drawing
pub mod Panels
