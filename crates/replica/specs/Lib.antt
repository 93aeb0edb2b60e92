pub mod Duties
pub mod Replicas
