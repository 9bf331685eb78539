pub mod ReadThrough
