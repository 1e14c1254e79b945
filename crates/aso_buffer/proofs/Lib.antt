pub mod RowLemmas
pub mod KeyLemmas
pub mod PastLemmas
pub mod LeafLemmas
