pub mod Agreement
pub mod Expected
