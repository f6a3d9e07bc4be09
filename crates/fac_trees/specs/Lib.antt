pub mod TextTrees
