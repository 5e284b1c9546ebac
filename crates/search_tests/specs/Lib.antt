pub mod Tokens
pub mod Later
pub mod TokensLaws
