pub mod Asked
pub mod Cases
pub mod Exchanges
pub mod Heard
pub mod Orders
pub mod Replied
pub mod Reports
