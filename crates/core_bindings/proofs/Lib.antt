pub mod BindingSteps
