pub mod CostLaws
pub mod SummedLaws
pub mod StartLaws
