-- The worked cases, each computed by the definitions of the rules: how a row is read, the table, the walks of the button's two ends (Q-7), and
-- those of Q-8 and Q-13, which are longer than a step.
pub mod Case
pub mod Cases
pub mod Button
pub mod LitSpots
pub mod Copies
