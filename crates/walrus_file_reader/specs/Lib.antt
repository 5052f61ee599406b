pub mod Contents
pub mod Files
