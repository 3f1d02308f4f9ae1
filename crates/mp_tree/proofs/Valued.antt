-- Values of `serde_json`: what each means, and which are read as what they mean.
pub mod Meaning
pub mod Numbers
pub mod Wholes
