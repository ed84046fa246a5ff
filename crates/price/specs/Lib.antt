pub mod Kinds
pub mod Proper
