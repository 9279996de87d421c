-- What holds of a trace while it is put, and at its end.
pub mod Printed
