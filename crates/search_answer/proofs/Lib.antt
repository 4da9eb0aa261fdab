pub mod AdmissionLaws
pub mod RefusedGap
pub mod Examples
pub mod CutLaws
pub mod FrontLaws
pub mod SlotLaws
