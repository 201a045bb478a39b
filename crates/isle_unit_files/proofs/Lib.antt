mod Apart
mod Files
mod Names
