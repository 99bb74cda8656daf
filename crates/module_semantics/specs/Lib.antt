pub mod SigPhrases
pub mod SignatureNames
pub mod SignatureInference
pub mod Matching
pub mod ElaboratesSignatures
pub mod Promises
