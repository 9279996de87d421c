-- Request Q-12: which records of a worn history are kept.
pub mod Row
