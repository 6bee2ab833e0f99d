pub mod PlainLink
