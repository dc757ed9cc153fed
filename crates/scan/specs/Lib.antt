-- What the scan answers, by document 01's definitions.
pub mod Rows
pub mod Scanned
pub mod Report
