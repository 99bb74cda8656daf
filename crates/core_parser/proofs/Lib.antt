pub mod CursorSteps
