-- Ranks in the star that loses nobody: each element has one rank, which its task's system shows and its manager
-- carries.
pub mod Shows
pub mod Carried
pub mod Ranked
pub mod Quiet
pub mod Settles
pub mod Mails
pub mod Decides
pub mod Takes
