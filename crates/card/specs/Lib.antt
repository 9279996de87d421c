-- The calls of the library as a host sees them: bytes in, bytes out, and a number.
pub mod Card
