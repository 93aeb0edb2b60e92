pub mod Snapshot
pub mod SnapshotLaws
