-- Determined by what a processor keeps and by the lanes that its event touches.
pub mod Jobs
pub mod Leaves
