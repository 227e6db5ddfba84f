pub mod Every
pub mod Lists
pub mod Forms
