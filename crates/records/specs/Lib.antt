-- What a call over records is, by the word form's own contract.
pub mod Over
