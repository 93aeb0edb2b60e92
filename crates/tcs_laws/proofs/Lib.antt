pub mod ListLemmas
pub mod PartLemmas
pub mod ShardLaw
pub mod SightLaws
