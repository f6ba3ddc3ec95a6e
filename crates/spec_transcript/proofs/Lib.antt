pub mod StopsLemmas
pub mod Written
