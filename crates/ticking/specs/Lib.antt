-- What a tick asks for. What it promises is in the specs of `rules`.
pub mod Tickable
