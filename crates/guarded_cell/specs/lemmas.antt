pub mod CopyLaws
pub mod FirstLaws
pub mod HeldLaws
pub mod SeenLaws
pub mod ShownLaws
pub mod StopLaws
