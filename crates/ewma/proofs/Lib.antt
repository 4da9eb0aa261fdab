pub mod SettingLaws
pub mod Editions
pub mod Places
pub mod Sides
pub mod Fading
pub mod AtRest
