pub mod Hmac
pub mod Derived
