pub mod Answers
pub mod LoadedProjects
pub mod ShortNames
pub mod Loaders
pub mod StepsInARow
