pub mod StartTable
pub mod TableRule
pub mod MonthLaws
pub mod StartLaws
