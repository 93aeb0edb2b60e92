pub mod ProposalLaws
pub mod StageLaws
