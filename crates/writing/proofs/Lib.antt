pub mod EdgeRecords
