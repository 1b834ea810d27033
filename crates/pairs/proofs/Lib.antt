-- The queue: its order, its content, what a moved hole, a push and a take do; pairs raised together; which have two marks; clearing.
pub mod Order
pub mod Sets
pub mod Bag
pub mod Heap
pub mod Holes
pub mod Raising
pub mod Zeros
pub mod Marks
pub mod Content
