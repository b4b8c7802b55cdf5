-- The lemmas, under the files of specs/ whose definitions they are about.

-- what a write changes in a count
pub mod Counting
-- Times: the tree
pub mod Trees
-- Requests and Parts: what holds of a table after each call
pub mod Keeping
-- Laws
pub mod Finishing
