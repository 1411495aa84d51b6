-- What the layout's contract says beside the definition.
pub mod Layouts
