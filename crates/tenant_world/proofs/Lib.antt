-- how often a number stands in a list
pub mod Counted
-- the numbers of a home's blocks, and those of new ones
pub mod Numbers
-- an entry of a map, with what stands before it and after it
pub mod Around
-- slices in the order of their ids
pub mod Ascending
-- blocks take the open slices, lowest first
pub mod Placing
-- the blocks at some indexes of a file, and their rows
pub mod Chosen
-- the rows of placed blocks, one block after the other
pub mod Rowing
-- which blocks come into slices at an append and at a load
pub mod Coming
-- how a content's own blocks change
pub mod Own
-- a file grew in its home
pub mod Grew
-- blocks leave their slices: which ones these are, and the purse after it
pub mod Freed
-- blocks leave their slices: what is noted, and what a history frees
pub mod Leaving
-- pairs in the order of their first numbers
pub mod Ordering
-- some blocks left their slices, and then others came into slices
pub mod Moved
-- which slices are used, whatever lies in them
pub mod Taken
-- why a call did nothing, as a reply
pub mod Ended
-- maps whose values are seen by a function, of which one entry is put
pub mod Seen
-- one of a home's contents comes to have other blocks
pub mod Changed
-- what is known of a content, whatever kind it is of
pub mod Content
-- the blocks of a layout are those of the names
pub mod Layouts
-- what a history says of a content that is kept so, kind by kind
pub mod Sorts
-- what a look-up of a name says of each state that the fields show
pub mod Found
-- requests that a state answers, while the fields that show it stay
pub mod Served
-- what names stand for, and the home that keeps it
pub mod Kept
-- what requests come to that move no block
pub mod Asking
-- a slice that comes is one step of the user
pub mod Granting
-- requests and slices as steps of the history that a tenant stands for
pub mod Steps
-- what is known of a name that is found, and why a request on it may be excused
pub mod Excused
-- a read of a name's file
pub mod FileReads
-- a request as a step of a history, whatever it moves
pub mod Shifting
-- a request of one name that changes that name's content alone
pub mod Owning
-- what stays of a home's slices over a request
pub mod Staying
-- a content's blocks leave their slices, or come into some, while it stays
pub mod Returned
-- a tenant's fields before a request of one name and after it
pub mod Inside
-- the slices of blocks are those of the ones that are in slices
pub mod Seated
-- a request of one name that leaves what it stands for
pub mod Same
-- a park of a name's blocks
pub mod Parking
-- where a request on a content was refused
pub mod Keptback
-- a load of a name's blocks
pub mod Loading
-- an append to a name's file
pub mod FileAppends
-- a number that names no block
pub mod Fresh
-- why a call on a queue did nothing, as a reply
pub mod QueueEnds
-- what is known of a name that is a queue
pub mod Queued
-- a look at the first item of a name's queue
pub mod QueueFronts
-- a pop of the first item of a name's queue
pub mod QueuePops
-- what the own moves of a queue are
pub mod QueueOwn
-- a push of an item to a name's queue
pub mod QueuePushes
