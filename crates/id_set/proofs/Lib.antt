-- the bits of one word
mod BitLemmas
-- a level of which the first places are filled
mod FilledLemmas
-- a set that is copied into a greater one
mod GrowLemmas
-- a level over the level below it
mod LevelLemmas
-- tables, seen as finite maps
pub mod Tables
