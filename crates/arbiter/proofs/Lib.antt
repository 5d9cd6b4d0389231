pub mod FirstChoice
