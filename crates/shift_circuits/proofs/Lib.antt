pub mod ShiftLaws
pub mod DivideLaws
