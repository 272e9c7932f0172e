pub mod Verdicts
pub mod SealedAnew
pub mod Results
