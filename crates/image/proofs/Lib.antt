pub mod Places
pub mod Pairs
pub mod Verdict
pub mod Contents
