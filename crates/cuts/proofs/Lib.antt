pub mod TooLong
