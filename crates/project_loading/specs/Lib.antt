pub mod Projects
