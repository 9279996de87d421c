-- The page of variables, spot for spot; and three pages written out.
pub mod Page
pub mod Cases
