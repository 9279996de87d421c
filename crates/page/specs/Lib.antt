-- The page of variables as bytes that compute.
pub mod Bytes
