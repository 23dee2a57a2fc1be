-- a run that grows by one entry
pub mod Longer
-- steps one after the other, and what a run is made of
pub mod Steps
-- sums over users, of which one changes
pub mod Summed
-- no history names a later number for a slice of the pool or the hand
pub mod Fresh
-- what each event keeps: histories in order, and each slice once
pub mod Conserved
-- a core stands for a run that is one entry longer
pub mod Stands
-- the slices of a pool that is being made
pub mod Made
-- the core as it is made
pub mod First
-- a slice that goes from the hand to the tenant
pub mod Given
-- tenants that came back, and the stores that were handed in
pub mod Handed
