-- Request Q-12: what comes of each place of a worn history, and what the report says of it.
pub mod Places
pub mod Cleared
pub mod Listed
pub mod Numbered
