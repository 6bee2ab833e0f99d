pub mod SmallTable
