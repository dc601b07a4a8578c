pub mod PlainRow
