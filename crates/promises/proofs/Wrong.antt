-- The programs that 01 wants unable to pass.
pub mod Wrong
pub mod MeetsWrong
