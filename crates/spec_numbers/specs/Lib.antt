pub mod Texts
pub mod Prefixes
pub mod Gcd
pub mod Rational
pub mod Order
pub mod Sums
