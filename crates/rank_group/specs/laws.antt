-- Laws of this crate's definitions, with their proofs: what a trait asks for, and nothing to be
-- believed.
pub mod NotedLaws
pub mod SeatLaws
