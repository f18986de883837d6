pub mod Agree
pub mod Decimal
pub mod Trip
pub mod Results
