pub mod AskedLaws
pub mod AskedPromise
