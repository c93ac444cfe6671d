pub mod LineRecords
