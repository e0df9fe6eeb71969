mod Putting
mod Paging
mod Cutting
