-- What the promises of `text` cite: numbers as text, and what is true of a buffer after bytes were put into it.
pub mod Text
pub mod Put
