pub mod HeadSteps
