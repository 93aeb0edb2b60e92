pub mod OpenAll
pub mod Lists
pub mod FirstNodes
pub mod FirstRoles
pub mod FirstConfigs
pub mod Start
pub mod Moments
