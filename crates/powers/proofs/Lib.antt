pub mod Eight
pub mod One
pub mod Laws
pub mod Words
pub mod Expected
pub mod Agreement
