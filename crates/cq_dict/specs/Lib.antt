pub mod Changes
pub mod Dict
pub mod Holders
pub mod DictValue
pub mod Forms
pub mod Roles
