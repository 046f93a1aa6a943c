pub mod Views
pub mod Steps
pub mod Counts
pub mod Progress
pub mod PrintLaws
pub mod Summaries
pub mod Headline
pub mod Accounts
