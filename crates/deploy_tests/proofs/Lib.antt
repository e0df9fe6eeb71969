mod Configs
mod Staging
