pub mod AreaLaws
pub mod BoxLaws
pub mod CutLaws
pub mod Examples
pub mod RootLaws
pub mod SumLaws
