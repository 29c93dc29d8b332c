pub mod Receipts
pub mod Laws
pub mod NewLetters
pub mod SentLetters
