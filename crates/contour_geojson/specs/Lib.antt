-- What the program's steps ask and leave.
pub mod Drawing
