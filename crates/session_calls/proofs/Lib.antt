pub mod Property
