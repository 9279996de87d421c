-- What is known of a drawing's pattern and of its rows.
pub mod Pattern
