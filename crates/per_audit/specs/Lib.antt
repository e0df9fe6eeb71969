pub mod Audits
pub mod AuditText
pub mod Noted
pub mod Laws
pub mod Samples
