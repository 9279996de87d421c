-- The law of the lowest key that is down. It stands here as in the answers of `lowest` of registers, since the two engines share no instruction.
mod Lowest
