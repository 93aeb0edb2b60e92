-- Single steps from written records: guards and effects of the rule table that no worked run meets.
pub mod Nodes
pub mod Clients
pub mod Preparing
pub mod Coordinating
pub mod Moving
pub mod Transferring
pub mod Serving
pub mod Worlds
pub mod Histories
