-- records as they are held
pub mod HeldLaws
-- records packed first fit, one by one
pub mod PackingLaws
-- what is packed are the records, in blocks that can be written
pub mod PackedLaws
-- parts of lists of records
pub mod Parts
-- what a plan of a move comes to, block by block
pub mod PlanLaws
-- the definitions compute
pub mod Examples
-- records by their keys
pub mod KeyLaws
-- a bucket's chain after a put and a remove
pub mod ChainLaws
-- where a key's bucket stands among a table's
pub mod TableLaws
-- a table after a put and a remove
pub mod PutLaws
-- what a step of a move makes of the two chains
pub mod StepLaws
-- the numbers of the blocks after a step of a move
pub mod NumberLaws
-- a table with two neighbouring buckets changed
pub mod BucketLaws
-- the first ripe bucket
pub mod RipeLaws
-- a table after a step of its move
pub mod MoveLaws
-- a step of a table's move, its end included
pub mod StepTableLaws
-- the cases of a balance
pub mod TurnCases
-- a table after a balance
pub mod TurnLaws
-- and the blocks that it has then
pub mod BlockLaws
-- puts and removes compute
pub mod PutExamples
