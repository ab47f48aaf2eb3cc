pub mod Bounded
pub mod HalfFours
