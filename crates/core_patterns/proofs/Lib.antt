pub mod PatSteps
