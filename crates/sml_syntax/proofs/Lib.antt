pub mod Exact
mod Integers
mod Level
pub mod Marks
mod Places
mod PlacesSig
mod PlacesUnit
mod ReadBinds
mod ReadExp
mod ReadPat
mod ReadSig
mod ReadSteps
mod ReadTy
pub mod ReadUnit
