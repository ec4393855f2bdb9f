pub mod ProgramEnds
pub mod SessionReport
pub mod ToolReport
