-- The message.
pub mod LapsMessage
